-- What lines are answered, one by one and out of a stream.
pub mod Lines
