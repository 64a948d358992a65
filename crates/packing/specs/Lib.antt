pub mod Packing
pub mod Theorems
pub mod Examples
