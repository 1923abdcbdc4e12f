-- Two tables compared for a party: what each has at a prefix, where they differ, and the call that lists it.
pub mod Comparing
