-- The three demands and the requests since, as statements about calls of the operations.
pub mod Call
pub mod Order
pub mod Fields
pub mod Demand1
pub mod Demand2
pub mod Demand3
pub mod Ranking
pub mod BestPick
pub mod Correction
pub mod Best
pub mod Hours
pub mod Rolling
pub mod Masks
pub mod Blocks
pub mod Day
pub mod Starred
