pub mod Builds
pub mod Records
pub mod Runs
pub mod Widths
