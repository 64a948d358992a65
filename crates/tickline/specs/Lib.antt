pub mod Line
pub mod Theorems
pub mod Examples
pub mod Written
pub mod Cut
pub mod Whole
