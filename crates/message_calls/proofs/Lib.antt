-- The laws of counting, of the walk, and of a whole message.
pub mod Determined
pub mod Going
pub mod Tallies
pub mod Whole
