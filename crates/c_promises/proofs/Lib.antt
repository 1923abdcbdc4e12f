-- A history is what a C program did (Seat), and what it reads is what the rules answer: from each number (Unpacking), from each
-- result of a list of addresses (Lists) and from each difference of two tables (Comparisons); chunks of a dump or of a day are
-- imports or replays of the rules (Chunks). So every promise of crates/promises, crates/difference_promises, crates/message_promises,
-- crates/import_promises and crates/replay_promises is one to it. What is said of the 64-bit numbers themselves, and of what a
-- party reads of its own whatever the other party does, is in Promises, what the contracts tell in Contracts, and worked programs
-- that meet the premises in Premises.
pub mod Seat
pub mod Unpacking
pub mod Lists
pub mod Comparisons
pub mod Chunks
pub mod Promises
pub mod Contracts
pub mod Premises
