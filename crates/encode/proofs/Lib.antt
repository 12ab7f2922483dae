pub mod Lengths
pub mod Marks
pub mod Turns
pub mod Widest
