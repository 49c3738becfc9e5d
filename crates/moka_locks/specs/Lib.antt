pub mod Cache
pub mod History
pub mod Locked
pub mod Moments
pub mod Tells
pub mod Snapshot
pub mod MaintenanceTurn
pub mod SameTickets
-- inside
pub mod Charged
