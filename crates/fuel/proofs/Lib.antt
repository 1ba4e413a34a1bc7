-- Laws of the figures, and what the proofs of their code lean on.
pub mod Batches
pub mod Figures
pub mod Only
