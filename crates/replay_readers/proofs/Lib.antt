-- The laws of reading what a record holds.
pub mod Records
