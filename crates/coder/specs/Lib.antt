-- What the operations over places answer, and what they leave in the lent memory.
pub mod Outcomes
pub mod Stages
