pub mod Accepts
pub mod After
pub mod Kept
pub mod Rules
pub mod Told
pub mod Vectors
