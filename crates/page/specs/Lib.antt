pub mod Answer
pub mod Page
pub mod Parts
