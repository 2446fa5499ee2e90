-- The laws of the C interface.
mod Counts
