pub mod Steps
pub mod Alleles
pub mod Filters
pub mod Site
pub mod Engine
