-- no byte of base64url, and so of a hash text, is escaped in JSON; a text with an escaped byte is not a hash text
pub mod BareLemmas
-- a written core index fails no rule and is read again
pub mod CoreLemmas
-- the URI of a file is a hash that is read from its text
pub mod MemberLemmas
-- their canonical text, one member after another
-- written files that fail no rule, whatever the table
-- a written provisional index fails no rule and is read again
pub mod ProvisionalLemmas
pub mod WrittenLemmas

-- the written text is read again
-- hashes, entries and URIs are read from their written form
