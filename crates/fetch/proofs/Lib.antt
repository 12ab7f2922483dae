pub mod Fields
pub mod Inside
pub mod Account
pub mod Held
pub mod Said
