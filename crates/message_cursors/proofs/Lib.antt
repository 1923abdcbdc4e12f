-- The laws of a cursor's step.
pub mod Steps
