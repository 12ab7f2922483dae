pub mod Repeats
pub mod Engine
