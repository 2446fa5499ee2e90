-- What the engine's arrays hold, and the points of a list of places.
pub mod Arrays
pub mod Places
