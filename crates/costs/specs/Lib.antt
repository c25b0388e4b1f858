pub mod Cost
pub mod Ends
pub mod Lanes
pub mod Passages
pub mod View
