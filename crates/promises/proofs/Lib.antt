-- The promises: demands 2 and 3 over every history (Promises), demand 1 on any memory (Refused), both of a list of addresses
-- (Lists), that a party's lookups are its own doing (Parties), and worked histories (Showing) that meet their premises
-- (Premises). What a seat shows, that what it did is a history, is in Histories. Below them is what
-- carries them: from sums over routes to slots and counters, to what ties a table to its routes, to the listed conditions
-- and their numbers, histories and answers.
pub mod Promises
pub mod Refused
pub mod Lists
pub mod Parties
pub mod Showing
pub mod Premises
pub mod Conditions
pub mod Answers
pub mod Replaced
pub mod Anew
pub mod Lookups
pub mod Matches
pub mod Histories
pub mod Updates
pub mod Refusals
pub mod Numbers
pub mod Kept
pub mod Counters
pub mod Buckets
pub mod Slots
pub mod Below
pub mod Paper
pub mod Sums
