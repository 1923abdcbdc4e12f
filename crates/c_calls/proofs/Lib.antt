-- The law that a list of D of another count is refused as settings with such a list are.
pub mod Whole
