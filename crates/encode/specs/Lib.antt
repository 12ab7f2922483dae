pub mod Encode
pub mod Engine
