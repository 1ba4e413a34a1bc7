-- Laws of judging.
pub mod Laws
pub mod Only
