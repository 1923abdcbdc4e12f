-- The laws of the shapes that several proofs cite, that a line asks for numbers of 32 bits, that the contract leaves one result, and
-- worked lines.
pub mod Digits
pub mod Items
pub mod Words
pub mod Determined
pub mod Worked
