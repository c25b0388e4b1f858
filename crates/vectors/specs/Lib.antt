pub mod Pieces
pub mod Stores
pub mod Tallies
