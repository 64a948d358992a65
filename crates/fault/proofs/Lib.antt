pub mod Climbing
pub mod Faults
pub mod Names
pub mod Reaching
pub mod Searches
pub mod Steps
