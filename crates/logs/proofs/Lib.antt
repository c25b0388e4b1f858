pub mod Behind
pub mod Bytes
pub mod Determined
pub mod Earliest
pub mod Fewest
pub mod Following
pub mod Placed
pub mod Ranges
