-- Laws about fills, each proved once; proofs of functions cite them, and so do the layers above.
pub mod Neighbours
pub mod Largest
pub mod Short
pub mod Limits
pub mod Windows
pub mod States
pub mod Products
pub mod Alone
pub mod Filled
pub mod Bounds
pub mod Whole
pub mod Gathered
pub mod Scans
pub mod Stand
pub mod Period
pub mod Only
