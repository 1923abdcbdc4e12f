-- What a record of a day does, how far its figures go, and the laws by which its call is proved.
pub mod Days
pub mod Laws
