-- Document 01, "Row, work tables, panel": the governing-survey call.
pub mod Governing
