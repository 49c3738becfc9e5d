pub mod Store
-- inside
pub mod Room
pub mod Nodes
