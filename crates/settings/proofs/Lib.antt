-- The laws on types that hold what was checked.
pub mod Readiness
pub mod Tables
