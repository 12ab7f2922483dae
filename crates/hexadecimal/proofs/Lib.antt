pub mod Choices
pub mod Cut
pub mod Digits
pub mod Examples
pub mod Frames
pub mod Rooms
pub mod Table
