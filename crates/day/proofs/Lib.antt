-- Laws of a day's readings, and what the proofs of the code lean on.
pub mod OneHour
pub mod Hours
pub mod AtFault
pub mod Laws
pub mod Only
