pub mod CallLemmas
pub mod OwnLemmas
