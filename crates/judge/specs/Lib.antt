pub mod Answer
pub mod Best
pub mod Least
