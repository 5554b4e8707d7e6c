pub mod AllStepped
pub mod Pointer
pub mod Edited
pub mod Step
pub mod Stepped
pub mod inside
