pub mod Apart
pub mod Chosen
pub mod Columns
pub mod Counts
pub mod Lines
pub mod Tabs
pub mod Twins
pub mod Witnesses
