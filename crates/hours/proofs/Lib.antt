-- The laws of means and packing.
pub mod Stamps
mod Runs
mod Scan
pub mod Numbers
mod Stream
mod Symbols
mod Reading
pub mod Counting
pub mod Range
pub mod Unpacking
pub mod Cases
