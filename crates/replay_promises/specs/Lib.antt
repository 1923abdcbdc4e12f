-- What a replay stands for: its records, their single calls, its tally and its UPDATEs.
pub mod Days
