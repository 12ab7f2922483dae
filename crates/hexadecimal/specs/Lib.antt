pub mod Answers
pub mod Hexadecimal
