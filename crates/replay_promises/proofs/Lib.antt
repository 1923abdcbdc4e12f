-- What is promised of a replay after any history (Promises), that it does not matter how a day is cut (Cuts), that a day leaves the
-- table that its UPDATEs leave one by one (Messages), and worked days that meet the premises (Premises). A chunk is its single
-- calls, and so are chunks one after the other; the tally counts their answers (Singles). All of it, and demand 1, is what
-- crates/stream_promises says of a stream, since the records of a day keep its laws (Laws).
pub mod Promises
pub mod Cuts
pub mod Messages
pub mod Premises
pub mod Singles
pub mod Laws
