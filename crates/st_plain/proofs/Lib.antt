-- Private: lemmas that this crate's proofs cite.
mod AlreadyLemmas
pub mod Compact
mod GatheredLemmas
pub mod SortLemmas
pub mod MarkLemmas
pub mod NameLemmas
mod RankLemmas
mod RespellingLemmas
-- For the crates above: canonical text reads back as its value, and no two values have the same text
pub mod ReadableLemmas
-- names as a canonical text escapes them, read back
pub mod HeldLemmas
-- items as a list, and items before others
pub mod ListedLemmas
-- the text of an object whose members were listed in any order
-- bits for the bytes of a text, sixteen at a time
-- lookups by name after a put or a removal
-- the nesting depth of values that were read, and that their text is read again
pub mod WalkLemmas
-- lookups in an object of listed members, in a list and in a text
-- names that are literals
-- the order of names, and the test of a name
-- bytes as JSON, by what `serde_json` makes of them
-- a text compared with a word
pub mod QuotedLemmas
-- proper values shallow enough to be read again, and values built from them
-- bytes that may follow a scalar
pub mod ScalarLemmas

-- pairs in the order of their names
-- a canonical text is UTF-8
-- where a value ends
