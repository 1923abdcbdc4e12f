-- What taking bytes up to the next complete record gives.
pub mod Runs
