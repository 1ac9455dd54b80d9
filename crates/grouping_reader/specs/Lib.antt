pub mod SeatLine
pub mod Faults
pub mod GroupingLines
