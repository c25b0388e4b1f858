pub mod Answer
pub mod Joining
pub mod Parts
pub mod Union
