pub mod Alike
pub mod Lengths
pub mod Outputs
pub mod Puts
