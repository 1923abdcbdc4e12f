-- How far the counts of an import go, and the laws by which its call is proved.
pub mod Counts
pub mod Laws
