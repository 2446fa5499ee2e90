-- Hourly means and their packing in blocks, in the order of document 01; Run and Reader are what the private functions tell each other.
pub mod Means
pub mod Packing
pub mod Run
pub mod Reader
pub mod Cases
