-- Theorems on words near a codeword, and on the rows.
pub mod Weighted
pub mod Keys
pub mod Elements
pub mod Reduction
pub mod Least
pub mod Start
pub mod Steps
pub mod Product
pub mod Distance
pub mod Spots
pub mod Unique
pub mod Exists
pub mod Locator
pub mod Decoding
pub mod Cases
