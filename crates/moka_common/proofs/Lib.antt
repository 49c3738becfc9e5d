pub mod KeysLemmas
pub mod CellLemmas
pub mod CounterSumLemmas
pub mod LaneLemmas
pub mod LawLemmas
pub mod SketchLemmas
pub mod UnpackedLemmas
