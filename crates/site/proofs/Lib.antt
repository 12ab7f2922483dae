pub mod Filters
pub mod Inside
pub mod Turns
pub mod Said
