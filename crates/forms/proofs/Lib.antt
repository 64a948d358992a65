pub mod Exits
pub mod Sets
pub mod Letters
pub mod Forms
