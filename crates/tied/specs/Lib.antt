pub mod Ties
pub mod Narrowed
pub mod Calls
pub mod Theorems
pub mod Examples
pub mod Passes
