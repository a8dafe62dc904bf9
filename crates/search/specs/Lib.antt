pub mod Tables
pub mod Parts
pub mod Above
pub mod Listing
pub mod Best
pub mod Faults
