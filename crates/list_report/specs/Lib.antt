pub mod SharedSets
pub mod Regions
pub mod Places
pub mod Alternatives
pub mod Chains
pub mod Listing
pub mod GroupPeople
pub mod ListingObject
