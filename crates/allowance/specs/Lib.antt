-- Document 01, "The allowance".
pub mod Exact
pub mod Allowance
pub mod Opened
