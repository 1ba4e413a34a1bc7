-- The allowance of every line, proved once over the units, the divisor of a gram and the fill rule.
pub mod Sums
pub mod Account
pub mod Fills
pub mod Near
pub mod Bounds
pub mod Order
pub mod Cases
pub mod Refuted
