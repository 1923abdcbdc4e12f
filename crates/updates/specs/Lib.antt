-- What the contracts of the updates cite.
pub mod Checked
