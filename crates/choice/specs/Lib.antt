pub mod Choice
pub mod Sizes
