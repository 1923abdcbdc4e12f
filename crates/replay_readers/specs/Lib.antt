-- What the reading of a record answers.
pub mod Held
