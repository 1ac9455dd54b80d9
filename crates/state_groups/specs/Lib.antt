pub mod StateValue
pub mod Cut
pub mod Stranding
pub mod Sums
pub mod Keeping
pub mod People
pub mod PlacedValues
