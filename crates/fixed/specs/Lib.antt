pub mod Layout
pub mod Fixed
