pub mod Base64Lemmas
pub mod HashLemmas
