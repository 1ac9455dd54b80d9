pub mod Escapes
pub mod Answers
pub mod Record
pub mod RecordFiles
pub mod RunRecord
