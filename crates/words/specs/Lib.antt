-- The laws that every cell that holds words keeps.
pub mod Laws
