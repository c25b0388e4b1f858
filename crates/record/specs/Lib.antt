pub mod Held
pub mod Kept
pub mod Older
pub mod Reader
pub mod Written
