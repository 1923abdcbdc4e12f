-- What the walk keeps.
pub mod Parts
pub mod Walking
