-- What an answer says of the file.
pub mod Walks
pub mod Rows
pub mod Answers
pub mod Only
pub mod Heads
pub mod Silent
pub mod Wrong
pub mod Places
pub mod Never
pub mod Running
