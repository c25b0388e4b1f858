pub mod Columns
pub mod Numbers
