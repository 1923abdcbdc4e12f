-- What a caller of crates/table, crates/difference_calls, crates/message_calls, crates/message_writers, crates/import_calls,
-- crates/replay_calls and crates/stream_records saw is a history (Callers), over what each contract tells (Contracts, Comparisons,
-- Messages, Streams, Imports, Replays), of which results answers are given back (Results), and what the types of what is lent tell
-- (Elements); and that such calls can be made (Premises).
pub mod Callers
pub mod Results
pub mod Contracts
pub mod Comparisons
pub mod Messages
pub mod Streams
pub mod Imports
pub mod Replays
pub mod Elements
pub mod Premises
