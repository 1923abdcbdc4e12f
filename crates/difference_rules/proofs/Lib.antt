-- The laws that other crates cite, and the worked cases.
pub mod Rising
pub mod Having
pub mod Checks
pub mod Sides
pub mod Running
pub mod Few
pub mod Worked
