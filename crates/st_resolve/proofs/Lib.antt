mod ResultLemmas
mod SpellingLemmas
