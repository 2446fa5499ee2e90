-- Laws of the places that are kept, and of what they decide.
pub mod Passing
pub mod Counting
pub mod Running
pub mod Solving
pub mod Correcting
pub mod Locating
