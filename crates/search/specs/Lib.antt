-- What the search keeps, and what it finds.
pub mod Found
pub mod Search
