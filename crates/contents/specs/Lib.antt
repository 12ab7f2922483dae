pub mod Contents
pub mod Fetched
