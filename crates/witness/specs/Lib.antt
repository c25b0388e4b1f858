pub mod Chosen
pub mod Merge
pub mod Solves
