pub mod Pending
pub mod Plans
pub mod Theorems
