-- The laws of the code test and of the loops over lists.
mod Answering
pub mod Opened
mod Bounds
mod Injective
mod Marking
mod Repeats
pub mod Words
