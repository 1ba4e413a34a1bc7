-- Document 01, "The record file": one hour of a day, and a day's readings.
pub mod Hour
pub mod Day
pub mod Opened
