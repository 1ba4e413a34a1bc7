-- Document 01, "Grams": a row of a table as the code holds it.
pub mod Rows
pub mod Opened
