pub mod FirstLines
pub mod SizeTable
pub mod Report
pub mod Outcomes
pub mod GroupingText
pub mod FaultWords
pub mod FindingsText
