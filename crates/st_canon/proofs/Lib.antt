-- Private: lemmas that this crate's proofs cite.
pub mod TreeLemmas
pub mod MemberLemmas

-- For the crates above: an edit of a list of values, over its plain items
-- the plain members after a pair is inserted among the pairs, and lookups in them
