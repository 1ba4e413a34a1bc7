-- What the program says of its input.
pub mod Answered
