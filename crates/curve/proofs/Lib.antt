-- The curve's equation in the form that the code computes, its solutions by a table of roots, the loops that list points, and how many Points counts.
mod Equation
mod Quadratic
mod Listing
pub mod Count
