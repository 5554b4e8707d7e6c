-- A stored queue, a delta that counts, and the counts of submitting a request.
mod ReadBackLemmas
mod QueueLemmas
-- The anchor string of a batch, and what is known from its files.
mod KnownBatchLemmas
-- An entry with that string gives the operations of the batch.
mod GivenBatchLemmas
mod GivenDifferentLemmas
mod GivenOperationsLemmas
-- The operations that a flush takes from a queue, by kind, and the rest.
mod FlushLemmas
-- The length of files, by their contents, and how many operations go into a batch.
mod SizeLemmas
mod FileSizeLemmas
mod PrefixSizeLemmas
mod Sizes
mod SmallLemmas
-- Up to 1,000 operations always go into one batch of version 1.
mod ThousandLemmas
