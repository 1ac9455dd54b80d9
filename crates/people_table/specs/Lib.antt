pub mod QuotedFields
pub mod CutFields
pub mod TableFaults
pub mod CountyLines
pub mod Listed
pub mod CountiesOfTable
