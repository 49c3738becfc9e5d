pub mod Need
pub mod Taken
-- inside
pub mod Held
pub mod Fronts
