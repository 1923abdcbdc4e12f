-- The laws of one record, and what the contract determines.
pub mod Determined
pub mod Records
