-- Words near a codeword, and how the codeword is found.
pub mod Near
pub mod Rows
pub mod Decoding
pub mod Cases
