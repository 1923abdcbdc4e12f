-- The laws of texts that several proofs cite, and that each contract leaves one result.
pub mod Puts
pub mod Decimals
pub mod Determined
