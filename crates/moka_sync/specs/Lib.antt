pub mod Builder
pub mod Own
pub mod Session
