-- Singular curves, and the bound on the points of the others: by points over few X, which a trace shows, and two points over each X.
pub mod Columns
pub mod Singular
pub mod Walsh
pub mod Forms
pub mod Trace
pub mod Over
pub mod Bound
