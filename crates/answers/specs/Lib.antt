-- What an answer says of the file.
pub mod Answers
pub mod Heads
pub mod Places
