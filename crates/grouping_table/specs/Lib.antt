pub mod Quoting
pub mod LabelledSets
pub mod Table
pub mod GroupingsTable
