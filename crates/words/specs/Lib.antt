pub mod Lists
pub mod Pick
pub mod Words
