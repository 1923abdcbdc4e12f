-- The laws of a chunk while its records are done, and of words none of which is high.
pub mod Counts
pub mod Going
