-- The definitions that every contract and promise cites.
pub mod Tools
pub mod Table
pub mod Ready
pub mod Calls
pub mod Meaning
pub mod Numbers
