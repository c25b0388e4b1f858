pub mod Base
pub mod Chosen
pub mod Exits
pub mod Filled
pub mod Levels
pub mod Marked
pub mod Plan
