pub mod Choices
pub mod Cuts
pub mod Fronts
pub mod Releases
pub mod Rooms
pub mod Shorter
pub mod Steps
