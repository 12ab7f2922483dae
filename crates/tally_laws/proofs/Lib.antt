pub mod Gt
pub mod Slots
pub mod Calls
