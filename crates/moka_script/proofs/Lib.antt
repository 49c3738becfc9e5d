pub mod CoreRunLemmas
pub mod FirstCoreLemmas
pub mod RecordedRunLemmas
pub mod ReplyLemmas
pub mod SketchRunLemmas
pub mod UnsyncRunLemmas
