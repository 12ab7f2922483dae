pub mod Present
pub mod Room
pub mod Stand
pub mod Held
pub mod Said
