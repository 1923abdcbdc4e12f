-- A message as part of a history, and what a message and a written withdrawal can be refused for.
pub mod Heard
