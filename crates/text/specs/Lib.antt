-- Document 01, the program `account`: its numbers and lines as bytes, and what it is to write them into a lent buffer.
pub mod Numbers
pub mod Line
pub mod Text
pub mod Opened
