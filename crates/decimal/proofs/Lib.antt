pub mod Decimal
pub mod Digits
pub mod Examples
pub mod Stores
pub mod Said
