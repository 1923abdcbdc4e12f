-- What the loops over a list of addresses share, whatever its form.
pub mod Listing
