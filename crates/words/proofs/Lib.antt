-- The laws that other proofs cite, of words in bytes and of cells that are put one after the other.
pub mod Stores
pub mod Words
