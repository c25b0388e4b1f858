pub mod Cases
pub mod Explored
pub mod Abstracts
pub mod Scans
pub mod Search
pub mod Shapes
pub mod Told
