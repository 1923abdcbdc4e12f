-- The laws that this crate's proofs cite, and that each contract determines its call.
pub mod Determined
pub mod Ends
pub mod Listing
