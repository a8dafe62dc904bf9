pub mod Merits
pub mod Members
pub mod Gradients
pub mod Printed
pub mod Totals
