pub mod CallLemmas
pub mod OwnLemmas
pub mod LawLemmas
pub mod PlanLemmas
pub mod AllLemmas
mod PutLemmas
mod IfLemmas
mod SessionLemmas
mod PairLemmas
mod ToldLemmas
mod NoteLemmas
mod NotifyLemmas
mod ProbeLemmas
mod ModifyLemmas
