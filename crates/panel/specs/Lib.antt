-- Document 01, "Row, work tables, panel": the panel.
pub mod Lawful
pub mod Panel
pub mod Runs
