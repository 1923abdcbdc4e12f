-- The laws of bytes taken in runs and of a chunk taken record by record, and what the contracts determine.
pub mod Runs
pub mod Taken
pub mod Determined
