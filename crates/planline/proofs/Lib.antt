pub mod Rendering
pub mod Examples
