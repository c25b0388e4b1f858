pub mod Prints
pub mod Table
pub mod Text
