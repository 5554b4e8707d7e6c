pub mod Standing
pub mod Texts
pub mod inside
