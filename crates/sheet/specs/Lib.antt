pub mod Faults
pub mod Raised
pub mod Contents
pub mod Measured
pub mod Answers
pub mod Changes
pub mod Runs
