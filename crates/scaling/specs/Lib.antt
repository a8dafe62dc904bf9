pub mod Scaled
pub mod Compared
