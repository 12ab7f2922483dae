pub mod Calls
pub mod Engine
pub mod Totals
