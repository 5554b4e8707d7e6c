pub mod Plain
pub mod Measures
pub mod Objects
pub mod Names
pub mod ReadAgain
pub mod Shapes
pub mod inside
