-- The laws that other crates cite, and the worked cases.
pub mod Counting
pub mod Tallies
pub mod Words
pub mod Worked
