pub mod Strings
pub mod OneTime
pub mod Tree
pub mod Signature
pub mod inside
