-- Laws of the nearest pattern and about texts, what the proofs of the code lean on, and that no second answer meets the promise.
pub mod Steps
pub mod Between
pub mod NearestOnly
pub mod Back
pub mod Answer
pub mod Computed
pub mod Digits
pub mod Unmeasured
pub mod Formed
pub mod Faults
pub mod Judged
pub mod Texts
pub mod Only
pub mod Grammar
pub mod DayWritten
pub mod Taking
pub mod Bringing
