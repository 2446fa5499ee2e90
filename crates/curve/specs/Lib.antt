-- What Points answers and leaves in the two buffers, what its loops do, and by what it finds the points over an X.
pub mod Points
pub mod Listing
pub mod Roots
