-- What is said of the bytes that came, and that of equal bytes no second text meets the promise.
pub mod Answering
pub mod Only
