-- What a cursor's step gives.
pub mod Steps
