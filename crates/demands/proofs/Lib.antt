-- The three demands and the requests since as theorems, of calls by their contracts, and the starred cases.
mod Passing
mod Ones
mod Rows
mod Order
pub mod Ranking
mod RankLists
mod RankOrder
pub mod Fields
pub mod Blocks
pub mod Hours
pub mod Rolling
pub mod Masks
pub mod Demand1
pub mod Demand2
pub mod Demand3
pub mod BestPick
pub mod Correction
pub mod Best
pub mod Day
pub mod Starred
pub mod Exports
