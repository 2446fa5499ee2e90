-- Document 01's definitions of codes and codewords, in its order, what the operations compute for them, and what demands 2 and 3 say of them.
pub mod Code
pub mod Codewords
pub mod Computed
pub mod Demand2
pub mod Demand3
pub mod Cases
