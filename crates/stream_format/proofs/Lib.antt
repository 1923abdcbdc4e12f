-- The laws that other crates cite: two streams that move alike (Alike), what is kept between two chunks (Regular), where a
-- stream is cut (Cuts), its end (Ends), that its records are of bytes (Bytes) and count with
-- their last one (Complete), and which way a chunk goes (Taking).
pub mod Alike
pub mod Bytes
pub mod Cuts
pub mod Ends
pub mod Regular
pub mod Taking
pub mod Complete
