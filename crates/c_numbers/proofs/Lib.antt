-- That whatever a call gives back has room in its number.
pub mod Fitting
pub mod Streams
