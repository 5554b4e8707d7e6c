pub mod Image
pub mod Vault
pub mod Formatting
pub mod inside
