pub mod Weight
pub mod Statistics
pub mod Inserted
pub mod Removed
pub mod Buffer
pub mod ByteKeys
pub mod Walk
pub mod Drain
pub mod NumberKeys
pub mod NumberWalk
pub mod Opening
pub mod Calls
pub mod ByteCalls
pub mod NumberCalls
-- inside
pub mod Held
pub mod HandleLends
