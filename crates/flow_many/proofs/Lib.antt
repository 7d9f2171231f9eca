mod CommandLemmas
mod FilesLemmas
mod HeadlineLemmas
mod JoinedLemmas
mod ReaderLemmas
mod SumLemmas
mod WordLemmas
