mod ChainedLemmas
