pub mod Output
pub mod Put
pub mod Writer
