-- The laws of the operations over places.
pub mod Results
pub mod Every
pub mod Prepared
