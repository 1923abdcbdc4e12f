-- What has room in a number.
pub mod Fitting
