-- What a walk over two tables keeps.
pub mod Walking
