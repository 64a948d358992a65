pub mod Admission
pub mod Steps
pub mod Run
pub mod Calls
pub mod Theorems
pub mod Packed
