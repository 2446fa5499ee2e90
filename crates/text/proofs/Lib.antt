-- What the functions' proofs cite, and the theorems about the definitions.
mod Texts
mod Numbers
mod Lines
mod Sheets
pub mod Appending
mod Digits
pub mod Inverse
mod Unique
pub mod Read
