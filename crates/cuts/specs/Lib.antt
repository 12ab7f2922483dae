pub mod Cuts
pub mod Engine
pub mod Printed
pub mod Release
pub mod Steps
