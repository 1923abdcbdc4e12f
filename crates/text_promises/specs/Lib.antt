-- What the text program writes by the routes on paper, what whoever types lines sees, and what a caller of crates/text_lines sees.
pub mod Paper
pub mod Typed
pub mod Streams
