-- Numbers written as bytes, and the answer of each call.
pub mod Puts
pub mod Answers
