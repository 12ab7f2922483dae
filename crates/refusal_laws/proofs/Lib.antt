pub mod Among
pub mod Values
pub mod Blocks
pub mod Reading
pub mod AfterReading
pub mod Turns
pub mod Answers
