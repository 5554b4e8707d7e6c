pub mod Jwk
pub mod Signing
pub mod Texts
pub mod inside
