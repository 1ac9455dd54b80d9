mod Members
mod Joining
mod Listed
mod Loops
mod PlaceLists
mod Sizes
mod GroupPeople
mod FirstSets
