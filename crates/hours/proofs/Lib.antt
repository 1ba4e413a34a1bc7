-- Laws of a mask's bits, of a line's days and of an hour's state, and that no second answer meets the promise of a public call.
pub mod Ones
pub mod Laws
pub mod Whole
pub mod Marked
pub mod Only
