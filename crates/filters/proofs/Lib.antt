-- The laws that the loops share, and those that callers cite.
pub mod Hashing
pub mod Visits
