pub mod Question
pub mod Examples
pub mod Steps
pub mod Calls
pub mod Theorems
