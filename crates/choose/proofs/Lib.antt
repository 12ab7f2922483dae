pub mod Fields
pub mod People
pub mod Stretches
pub mod Written
