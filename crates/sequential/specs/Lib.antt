pub mod Allowed
pub mod Answer
pub mod Listed
pub mod Parts
pub mod Rounds
pub mod Sinks
pub mod System
pub mod Text
