-- The laws that this crate's proofs cite, and those of a walk over two tables.
pub mod Determined
pub mod Passing
pub mod Slots
