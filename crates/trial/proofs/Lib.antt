pub mod Examples
pub mod Lists
pub mod Theorems
pub mod Presents
pub mod Runs
pub mod Told
pub mod Calling
pub mod OfTrial
