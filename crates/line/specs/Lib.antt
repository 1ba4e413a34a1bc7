-- The figures of a line, and a survey put in at its hour.
pub mod Line
pub mod Put
pub mod Days
