pub mod Changing
pub mod Running
pub mod Measuring
pub mod Tables
pub mod Ranking
pub mod Answering
