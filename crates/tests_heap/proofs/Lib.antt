mod HeapLemmas
