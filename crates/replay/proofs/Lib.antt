pub mod Accepts
pub mod Answers
pub mod Determined
pub mod Ranges
