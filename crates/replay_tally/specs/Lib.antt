-- What a step of the tally adds.
pub mod Steps
