pub mod Laws
pub mod Pairs
pub mod Insertions
pub mod Passes
pub mod Answering
pub mod Trials
