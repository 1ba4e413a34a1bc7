-- A part of the cells lent and written, and that no second answer meets the promise of a public call.
pub mod Parts
pub mod Only
