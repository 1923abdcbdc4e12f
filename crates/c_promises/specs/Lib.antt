-- What a C program sees: the number that each call of include/gateway.h gives back, the parts that the header reads from it
-- and from the bytes of a list's results or of differences, and the things that a program can do.
pub mod Numbers
pub mod Calls
