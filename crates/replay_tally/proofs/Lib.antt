-- The laws of a tally.
pub mod Adding
