pub mod Zeros
pub mod Columns
pub mod Bits
pub mod Clearing
pub mod Bytes
pub mod Spreading
pub mod Theorems
pub mod Examples
