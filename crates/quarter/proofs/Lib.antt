-- What the promise of `account` asks at each way out, and that no second answer meets it.
pub mod Promises
pub mod Only
