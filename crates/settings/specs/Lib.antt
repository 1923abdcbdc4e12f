-- What the contracts over a whole table cite.
pub mod Tables
