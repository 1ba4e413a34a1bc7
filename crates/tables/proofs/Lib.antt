-- Laws of the tables.
pub mod Rows
pub mod Bounds
pub mod Only
