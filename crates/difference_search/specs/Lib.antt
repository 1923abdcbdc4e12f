-- What a pass over the slots of a length keeps, and what it finds.
pub mod Next
