pub mod Pairs
pub mod People
pub mod Words
