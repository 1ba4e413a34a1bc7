-- A proof of each demand; the worked figures and the example, computed.
pub mod Falsity
pub mod Files
pub mod Rows
pub mod DayBytes
pub mod Walked
pub mod Imports
pub mod Filings
pub mod Printed
pub mod Demands
pub mod Refuted
pub mod Computed
