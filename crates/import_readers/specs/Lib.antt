-- What reading a record of a dump gives.
pub mod Records
