-- Laws of the panel, and what the proofs of its code lean on.
pub mod Whole
pub mod Laws
pub mod Cases
pub mod Runs
pub mod Only
