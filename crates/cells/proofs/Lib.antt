pub mod Places
pub mod Ranges
pub mod Finding
pub mod Copying
