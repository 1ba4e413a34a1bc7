-- Laws of the faces, and what the proofs of the code lean on.
pub mod Laws
pub mod Only
