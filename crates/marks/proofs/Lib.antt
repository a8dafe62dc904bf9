pub mod Bits
pub mod Cells
pub mod Displaced
pub mod Laws
pub mod TieSets
