pub mod Ticks
pub mod Theorems
