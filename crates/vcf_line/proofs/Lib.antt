mod Alleles
mod Calls
mod Filters
mod Genotypes
mod Measured
pub mod Shown
pub mod Said
