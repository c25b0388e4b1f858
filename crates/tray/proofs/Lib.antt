pub mod Determined
pub mod Fronts
pub mod Laws
pub mod Once
pub mod Parts
