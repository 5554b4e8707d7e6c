pub mod Plan
pub mod Summary
pub mod Talk
pub mod inside
