-- What the private functions of `walk` promise each other. The promise of the public call itself is `Promise` of the crate `rules`.
pub mod Views
pub mod Books
pub mod Closing
pub mod Taking
pub mod Walking
