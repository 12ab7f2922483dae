pub mod Releases
pub mod Divisions
pub mod Bytes
