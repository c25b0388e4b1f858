pub mod Calls
pub mod Replies
