-- The wrong programs that the promises shut out (Shams), and worked histories on which ours agrees with them (Agree).
pub mod Shams
pub mod Agree
