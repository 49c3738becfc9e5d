pub mod LoggedReads
pub mod OrdersState
-- inside
pub mod Kept
pub mod HighWater
