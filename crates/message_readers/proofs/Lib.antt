-- The laws of reading that other crates cite.
pub mod Headers
pub mod Parts
pub mod Places
