-- Histories of calls, the routes that a reader of the calls and their answers keeps on paper, the words of the demands
-- over such routes, and what one party does in a history.
pub mod History
pub mod Demands
pub mod Parties
