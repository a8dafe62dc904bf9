pub mod Cells
pub mod Numbers
pub mod TieSets
pub mod Tied
