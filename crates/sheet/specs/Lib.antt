-- What a sheet asks for, and the text of the answer.
pub mod Job
pub mod Cases
pub mod Running
