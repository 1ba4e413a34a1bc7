-- What is said of a filing, and that no second answer meets it.
pub mod Compared
pub mod Checks
pub mod Saying
pub mod Only
