-- What callers cite.
pub mod Checks
