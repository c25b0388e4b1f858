pub mod Answers
pub mod Determined
pub mod Pages
pub mod Printing
pub mod Shown
pub mod Turns
pub mod Widths
