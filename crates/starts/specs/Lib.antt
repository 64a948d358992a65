pub mod Ticks
pub mod Entries
pub mod Theorems
pub mod Summary
pub mod Walk
pub mod Computing
pub mod Examples
