-- The definitions of request S-7, in its order, and what it promises of them.
pub mod Ranking
pub mod Patterns
pub mod Cheapest
pub mod Best
pub mod Promises
pub mod Computed
pub mod Slots
pub mod Cases
