pub mod RunLemmas
mod ReplayLemmas
mod StepLemmas
