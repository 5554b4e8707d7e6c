pub mod Changing
pub mod PointerLemmas
pub mod Pieces
