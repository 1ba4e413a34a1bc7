-- The input of a program: what one read is, and what a call that reads answers and promises.
pub mod Asked
pub mod Got
pub mod Reads
