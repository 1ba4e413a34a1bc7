-- The faces that C and Rust call.
pub mod Faces
pub mod Opened
