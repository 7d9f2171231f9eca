pub mod AnswerLemmas
pub mod DefinitionLemmas
pub mod EndLemmas
pub mod GroupLemmas
pub mod ReadLemmas
pub mod RowLemmas
pub mod TakenLemmas
