pub mod Counts
pub mod Said
pub mod Reports
