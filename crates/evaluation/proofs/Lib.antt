-- The laws of the lanes, and of the list of different coordinates.
mod Passing
mod Marks
