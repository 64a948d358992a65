pub mod Values
pub mod Sweeps
pub mod Said
