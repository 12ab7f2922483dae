pub mod Rules
pub mod Values
