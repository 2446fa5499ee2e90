-- What the code test and the operations over it answer.
pub mod Heard
pub mod Lists
pub mod Points
pub mod Slots
pub mod Words
pub mod Parts
pub mod Shown
