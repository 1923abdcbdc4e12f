-- The laws that this crate's proofs cite, and that each contract determines its call.
pub mod Arguments
pub mod Crossings
pub mod Determined
