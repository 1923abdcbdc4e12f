-- What reading a part, a list or a whole message gives.
pub mod Readings
