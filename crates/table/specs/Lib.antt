pub mod Kinds
pub mod Program
pub mod Columns
pub mod Stacks
pub mod Check
