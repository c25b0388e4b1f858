pub mod Schedules
pub mod Stacks
pub mod Stepping
