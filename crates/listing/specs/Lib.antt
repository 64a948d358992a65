pub mod Text
pub mod Written
pub mod Lines
pub mod Writer
pub mod Rendering
pub mod Cut
pub mod Whole
