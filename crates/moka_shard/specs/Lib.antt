pub mod Rule
pub mod Shard
pub mod Permitted
pub mod ShardStep
pub mod ShardTake
pub mod ShardTurn
pub mod PlannedTurn
-- inside
pub mod Slots
