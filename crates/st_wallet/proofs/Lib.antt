pub mod StepLemmas
pub mod CountersLemmas
