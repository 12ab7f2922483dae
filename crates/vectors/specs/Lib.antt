pub mod Engine
pub mod Sound
pub mod Vectors
