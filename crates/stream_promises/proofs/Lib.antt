-- What is promised of a chunk after any history (Promises), that it does not matter how a stream is cut (Cuts), what chunks one
-- after the other come to (Whole), that their records are those of the file (Files), and demand 1 of a chunk and of the end
-- (Refused). Below them is what carries them: a chunk is its single calls (Singles), which are its party's (Own), a record is a
-- header and as many bytes as it says (Records), the three ways that a chunk can go (Ways), and what has to be known of a
-- reading (Lawful).
pub mod Promises
pub mod Cuts
pub mod Whole
pub mod Files
pub mod Refused
pub mod Singles
pub mod Own
pub mod Records
pub mod Ways
pub mod Lawful
