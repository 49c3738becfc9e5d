pub mod SlotListLemmas
pub mod RuleLemmas
pub mod SlotLemmas
pub mod FindLemmas
pub mod PairLemmas
pub mod ShardTurnLemmas
