pub mod Ticks
pub mod Theorems
pub mod Shows
