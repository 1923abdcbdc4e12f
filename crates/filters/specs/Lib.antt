-- What the contracts of the filters cite.
pub mod Visits
