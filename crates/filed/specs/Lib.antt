-- Document 02, A6: what a plant has filed, and what is said of it.
pub mod Filed
pub mod Said
pub mod Parts
pub mod Opened
