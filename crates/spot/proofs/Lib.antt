pub mod Spots
pub mod Examples
