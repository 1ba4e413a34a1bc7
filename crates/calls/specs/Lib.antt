-- The answers of the program's frames as bytes, and its room.
pub mod Answers
pub mod Sized
