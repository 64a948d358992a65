pub mod Reads
pub mod Cases
