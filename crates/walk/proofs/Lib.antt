pub mod Needs
pub mod Walks
