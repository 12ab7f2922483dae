pub mod Frames
pub mod Printed
pub mod Steps
pub mod Text
