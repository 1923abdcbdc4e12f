-- A quoted text as bytes.
pub mod Spelling
