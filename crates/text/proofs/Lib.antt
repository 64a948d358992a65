pub mod Bytes
pub mod Parsing
pub mod Settling
pub mod Theorems
pub mod Cut
