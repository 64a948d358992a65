pub mod Lines
pub mod Writing
pub mod Rendering
pub mod Examples
