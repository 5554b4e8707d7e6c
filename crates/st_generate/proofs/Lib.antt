mod SummaryLemmas
