-- Laws about the lines of a filing, what the proofs of the code lean on, that no second answer meets the promise, and that what is printed is read back.
pub mod Starts
pub mod Held
pub mod Next
pub mod Numbering
pub mod Row
pub mod Ending
pub mod Reading
pub mod Only
pub mod Decimals
pub mod Back
