pub mod AbsentLemmas
pub mod SendLemmas
pub mod NextLemmas
pub mod WalkLemmas
pub mod ScanLemmas
pub mod PlanLemmas
pub mod TakenLemmas
pub mod NewLemmas
