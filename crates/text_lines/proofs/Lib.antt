-- What a user of a stream may rely on, the sample, and the laws of rooms, replies and streams that the proofs cite.
pub mod Cuts
pub mod Owed
pub mod Replies
pub mod Rooms
pub mod Sample
pub mod Determined
pub mod Streams
