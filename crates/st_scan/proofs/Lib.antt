-- Private: lemmas that this crate's proofs cite.
mod TextLemmas
mod ContentLemmas
mod EntryLemmas
