pub mod Ranges
pub mod Counting
pub mod Squares
pub mod Displacing
