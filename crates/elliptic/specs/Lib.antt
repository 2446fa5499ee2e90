-- Curves, functions on them, and the list functions that the operations run.
pub mod Curve
pub mod Functions
pub mod Pair
