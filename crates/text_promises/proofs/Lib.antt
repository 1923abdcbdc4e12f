-- The promises of the text program, the sample on paper, premises met, and what carries them: no text stands for two things, lines are a
-- history, and a stream that is fed by calls.
pub mod Promises
pub mod Sample
pub mod Premises
pub mod Texts
pub mod Histories
pub mod Streams
