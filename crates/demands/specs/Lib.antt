-- The demands, on one page; and document 01, "Figures to agree on".
pub mod Imports
pub mod Filings
pub mod Demands
pub mod Figures
pub mod Example
