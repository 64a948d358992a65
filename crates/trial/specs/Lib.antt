pub mod Lists
pub mod Trials
pub mod Examples
pub mod Steps
pub mod Calls
pub mod Theorems
