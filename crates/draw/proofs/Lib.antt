pub mod Bits
pub mod Determined
pub mod Full
pub mod Marks
pub mod Pack
pub mod Refusals
pub mod Written
