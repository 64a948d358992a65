pub mod Planning
pub mod Theorems
pub mod Rows
