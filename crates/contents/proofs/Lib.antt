pub mod Bare
pub mod Blocks
pub mod Counts
pub mod Elements
pub mod Fetched
