pub mod Identifier
pub mod inside
