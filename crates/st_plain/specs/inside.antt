pub mod Objects
pub mod Walk
pub mod Respelled
