pub mod Jwk
