pub mod Nodes
pub mod Chain
pub mod ChainLends
pub mod IdList
pub mod HashIndex
pub mod GrowingIndex
pub mod IndexedList
-- inside
pub mod Indexed
pub mod Probed
pub mod Moving
pub mod Links
pub mod Chained
pub mod Listing
