pub mod Answers
pub mod Behind
pub mod Steps
pub mod Texts
pub mod Said
