pub mod Parts
pub mod ReportObject
pub mod SizeObject
pub mod FindingsObject
pub mod Message
