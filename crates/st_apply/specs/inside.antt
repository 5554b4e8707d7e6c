pub mod Applied
pub mod Shown
