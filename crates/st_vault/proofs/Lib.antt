pub mod ImageLemmas
mod SpentLemmas
pub mod OpeningLemmas
pub mod RunLemmas
mod FormatLemmas
