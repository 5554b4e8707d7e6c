pub mod DeltaLemmas
pub mod PatchLemmas
pub mod TakenLemmas
