-- Theorems on codes and codewords, up to demands 2 and 3 and the known cases.
pub mod Tests
pub mod Counting
pub mod Listing
pub mod Accepted
pub mod Coefficients
pub mod Places
pub mod Coordinates
pub mod Words
pub mod Choice
pub mod Taking
pub mod Picking
pub mod Ranks
pub mod Solving
pub mod Demand2
pub mod Demand3
pub mod Computed
pub mod Cases
