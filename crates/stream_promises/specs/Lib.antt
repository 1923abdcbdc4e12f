-- What a stream stands for, its records and their single calls, and what a chunk is refused for; and what a file is.
pub mod Noted
pub mod Files
