-- What a record of a dump says, and what an import does.
pub mod Routes
pub mod Importing
