pub mod Record
pub mod Replay
pub mod Passes
-- inside
pub mod Counted
