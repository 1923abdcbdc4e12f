-- What is promised of a comparison: of any two sides (Differing), demand 1 on any memory (Refused), after two histories
-- (Promises), and worked histories that meet the premises (Premises). Below them is what carries them: what a table has is
-- what its paper has (Paper), and lists in which each route stands once (Once).
pub mod Differing
pub mod Refused
pub mod Promises
pub mod Premises
pub mod Paper
pub mod Once
