pub mod Engine
pub mod Runs
