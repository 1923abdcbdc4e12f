-- What a walk over a part of a message does.
pub mod Walks
