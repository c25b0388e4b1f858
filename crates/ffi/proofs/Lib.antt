pub mod Determined
pub mod Ranges
pub mod Records
pub mod Replies
pub mod Trays
