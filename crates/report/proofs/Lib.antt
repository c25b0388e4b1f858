pub mod Counting
pub mod Determined
pub mod Fixed
pub mod Listing
pub mod Putting
pub mod Sizes
pub mod Telling
