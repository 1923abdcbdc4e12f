-- What a record of a day says, and what a replay does.
pub mod Messages
pub mod Replaying
