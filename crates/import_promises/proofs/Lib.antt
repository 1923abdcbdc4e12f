-- What is promised of an import after any history (Promises), that it does not matter how a dump is cut (Cuts), and worked dumps
-- that meet the premises (Premises). A chunk is its single calls (Singles). All of it, and demand 1, is what
-- crates/stream_promises says of a stream, since the records of a dump keep its laws (Laws).
pub mod Promises
pub mod Cuts
pub mod Premises
pub mod Singles
pub mod Laws
