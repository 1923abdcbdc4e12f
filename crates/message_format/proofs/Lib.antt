-- The laws that other crates cite, and the worked cases.
pub mod Alone
pub mod Counting
pub mod Given
pub mod Octets
pub mod Reports
pub mod Walks
pub mod Words
pub mod Worked
pub mod Written
