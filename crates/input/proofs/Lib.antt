-- One read, reads one behind the other, and that of known bytes no second answer meets the promise.
pub mod Lending
pub mod Going
pub mod Only
