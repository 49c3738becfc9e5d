pub mod Log
pub mod Counts
-- inside
pub mod WriteQueue
