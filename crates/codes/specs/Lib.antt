pub mod Codes
pub mod Words
pub mod Theorems
