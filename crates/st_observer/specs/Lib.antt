pub mod Observed
pub mod Work
pub mod inside
