pub mod Log
pub mod Placings
