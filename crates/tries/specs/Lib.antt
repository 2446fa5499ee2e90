-- What a pass over the places gathers, and the cheapest multiple.
pub mod Gathered
pub mod Multiples
