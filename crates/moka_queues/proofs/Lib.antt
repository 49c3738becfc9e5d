pub mod LogLemmas
pub mod TicketsLemmas
pub mod KeptLemmas
pub mod WrittenLemmas
pub mod FindLemmas
pub mod ChangeLemmas
pub mod HighWaterLemmas
