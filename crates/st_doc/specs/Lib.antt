pub mod Patch
pub mod Alike
pub mod Delta
pub mod Document
pub mod Patched
pub mod inside
