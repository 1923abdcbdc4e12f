-- What a stream of records is, what is kept of it, and what a call with a table makes of it.
pub mod Streams
pub mod Kept
pub mod Chunks
