pub mod EntryLemmas
mod TurnLemmas
pub mod StepLemmas
pub mod LawLemmas
