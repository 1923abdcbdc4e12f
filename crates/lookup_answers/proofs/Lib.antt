-- The law that every lookup's proof cites.
pub mod Lookups
