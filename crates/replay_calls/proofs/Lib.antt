-- The laws of a record and of the tally while records are noted, and that the contract leaves one result.
pub mod Determined
pub mod Records
pub mod Updates
