pub mod Steps
pub mod Contexts
pub mod Passes
pub mod Analysis
pub mod Theorems
