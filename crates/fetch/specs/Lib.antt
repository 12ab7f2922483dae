pub mod Fields
pub mod Account
pub mod Engine
pub mod Fetch
