pub mod Kinds
pub mod Places
pub mod Members
pub mod Trials
pub mod Improving
pub mod Faults
