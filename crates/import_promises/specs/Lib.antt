-- What an import stands for: its records, their single calls and its counts.
pub mod Dumps
