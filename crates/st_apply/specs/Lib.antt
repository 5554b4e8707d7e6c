pub mod Codes
pub mod Applied
pub mod Resolution
pub mod Laws
pub mod inside
