-- What stands in the buffer as it is written, and that no second answer meets the promise of a public call.
pub mod Numbers
pub mod Bytes
pub mod Spaced
pub mod Rows
pub mod Texts
pub mod Only
