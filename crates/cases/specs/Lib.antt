pub mod Cases
pub mod Claims
