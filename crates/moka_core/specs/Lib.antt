pub mod Pending
pub mod Machine
pub mod Calls
pub mod Core
pub mod CoreCaller
pub mod StepLaws
-- inside
pub mod MapState
pub mod Shards
pub mod PendingPlace
pub mod MapTurn
