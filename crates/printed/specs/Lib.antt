-- Document 01, "Figures to agree on": the program `account`.
pub mod Program
pub mod Opened
