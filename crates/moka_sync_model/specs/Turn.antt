pub mod Plan
pub mod Apply
pub mod Admission
pub mod Expiry
pub mod Turn
