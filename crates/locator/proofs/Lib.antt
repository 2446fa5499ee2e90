-- Laws of rows in arrays.
pub mod Dens
pub mod Parts
pub mod First
pub mod Turning
pub mod Choosing
pub mod Stepping
pub mod Locating
