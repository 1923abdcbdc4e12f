-- The definitions that the contracts of reading and writing cite.
pub mod Format
pub mod Reading
pub mod Reports
pub mod Writing
