pub mod CallLemmas
pub mod RecordLemmas
pub mod WiderLemmas
