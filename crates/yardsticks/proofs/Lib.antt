pub mod Laws
pub mod Sums
pub mod Steps
pub mod Adding
