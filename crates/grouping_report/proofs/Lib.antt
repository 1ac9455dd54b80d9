pub mod ReportLemmas
pub mod FieldsBack
pub mod TextBack
pub mod Appends
