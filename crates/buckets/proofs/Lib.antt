-- The laws that this crate's proofs cite, and those of other searches of buckets.
pub mod Determined
pub mod Ends
pub mod Passes
pub mod Searching
pub mod Slots
