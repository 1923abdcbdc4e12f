-- The laws of reading the entries of a record, and a whole one.
pub mod Entries
pub mod Records
