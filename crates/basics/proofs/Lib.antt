-- The laws that every crate shares.
pub mod Outcomes
pub mod Lists
pub mod Loops
pub mod BitLists
pub mod Shifts
pub mod Signed
pub mod SetBits
pub mod LittleEndian
