pub mod Shown
pub mod Values
pub mod Front
pub mod Records
