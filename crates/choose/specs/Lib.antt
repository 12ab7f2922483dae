pub mod Chosen
pub mod Choose
