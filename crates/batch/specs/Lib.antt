pub mod Batch
pub mod Bytes
pub mod Counts
pub mod Each
pub mod Outcomes
