mod LowestTerms
