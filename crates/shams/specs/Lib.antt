-- Any program for the table, and the part of the promises that shuts wrong ones out.
pub mod Programs
