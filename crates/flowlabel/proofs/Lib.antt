pub mod AnswerLemmas
pub mod CoveringLabels
pub mod LineLemmas
pub mod PrintoutLemmas
pub mod Outcomes
pub mod RowLemmas
pub mod RunLemmas
