mod VaultLemmas
mod LawLemmas
