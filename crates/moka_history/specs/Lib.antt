pub mod Steps
pub mod LastWrite
pub mod Cause
pub mod Laws
