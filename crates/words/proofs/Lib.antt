pub mod Pick
pub mod Places
pub mod Rules
pub mod Sign
pub mod Stores
pub mod Words
