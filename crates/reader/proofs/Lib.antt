pub mod Dialect
pub mod Endings
pub mod Openings
pub mod Readers
