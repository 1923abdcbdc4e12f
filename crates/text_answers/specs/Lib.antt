-- The bytes that the text program writes.
pub mod Texts
