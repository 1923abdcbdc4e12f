-- What the contracts determine.
pub mod Determined
