-- What is promised of a message after any history (Promises), demand 1 of a message and of a written withdrawal (Refused),
-- what a written withdrawal is heard as (Written), and worked messages that meet the premises (Premises). Below them is what
-- carries them: a message is its single calls (Routes), each check is its condition (Conditions), and the two spellings of a
-- message's form agree (Form).
pub mod Promises
pub mod Refused
pub mod Written
pub mod Premises
pub mod Routes
pub mod Conditions
pub mod Form
