pub mod Deque
pub mod DequeLends
-- inside
pub mod Linked
pub mod Lends
pub mod Slots
pub mod RawNodes
pub mod RawOwnership
pub mod RawLends
