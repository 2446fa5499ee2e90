-- What the arrays of values hold.
pub mod Values
