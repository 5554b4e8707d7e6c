mod StepLemmas
pub mod RunLemmas
