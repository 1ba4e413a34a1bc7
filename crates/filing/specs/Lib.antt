-- Document 02, A6: the text in which a plant files its rows.
pub mod Filing
pub mod Parts
pub mod Opened
