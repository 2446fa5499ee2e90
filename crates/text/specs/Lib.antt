-- The sheet language, and how the functions that read and write it answer.
pub mod Text
pub mod Reading
pub mod Valid
pub mod Stages
