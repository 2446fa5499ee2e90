-- Laws of the search.
pub mod Running
pub mod Improved
pub mod Blocks
pub mod Settings
pub mod Loops
pub mod Pairing
pub mod First
