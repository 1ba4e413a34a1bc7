-- Document 01, "Fills" and formula 2, over the work slices.
pub mod Gaps
pub mod Weights
pub mod Parts
pub mod Windows
pub mod Period
