pub mod Hasher
pub mod Sound
