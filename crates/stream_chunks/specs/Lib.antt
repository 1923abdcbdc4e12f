-- What is lent to a call, as its records find it, and how far its counts go.
pub mod Work
pub mod Grows
