pub mod FirstMerged
pub mod Merging
pub mod Sides
pub mod Whole
