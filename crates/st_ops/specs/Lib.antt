pub mod Claim
pub mod Operation
pub mod Request
pub mod inside
