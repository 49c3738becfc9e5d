pub mod Moment
pub mod Policy
pub mod Settings
pub mod Error
pub mod Keys
pub mod Weight
pub mod Prefix
pub mod Admission
pub mod Sketch
pub mod SketchCapacity
pub mod TrueCount
pub mod Enabling
pub mod Laws
-- inside
pub mod Cells
