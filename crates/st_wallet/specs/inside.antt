pub mod Machine
pub mod Drafts
