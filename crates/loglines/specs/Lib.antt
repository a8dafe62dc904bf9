pub mod Faults
pub mod Spans
pub mod Words
pub mod Text
pub mod Readers
pub mod Lines
pub mod Readings
pub mod Spelled
