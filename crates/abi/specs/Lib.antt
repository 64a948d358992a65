pub mod Figures
pub mod Exported
pub mod Theorems
