-- Laws of the pass and of the cheapest multiple.
pub mod Gathering
pub mod Choosing
