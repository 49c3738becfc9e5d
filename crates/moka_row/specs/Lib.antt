pub mod Visits
pub mod Kept
