pub mod Answers
pub mod Turns
pub mod Order
pub mod Values
