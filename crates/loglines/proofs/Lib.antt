pub mod Digits
pub mod Cuts
pub mod Spellings
pub mod Fronts
pub mod Commands
pub mod Feeds
pub mod States
