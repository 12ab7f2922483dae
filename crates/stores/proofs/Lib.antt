pub mod Inside
pub mod Room
pub mod Turns
