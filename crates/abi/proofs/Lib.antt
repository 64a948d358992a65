pub mod Telling
pub mod Theorems
