-- The words in which the differences of two tables are spoken of, and what a party has on paper.
pub mod Differing
pub mod Paper
