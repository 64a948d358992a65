pub mod Translates
