-- The shapes of the lines that the text program reads.
pub mod Shapes
