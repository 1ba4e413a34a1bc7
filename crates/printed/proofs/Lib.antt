-- The texts of an answer, and that no second one meets the promise of a public call.
pub mod Texts
pub mod Only
