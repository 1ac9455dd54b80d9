pub mod CheckFaults
pub mod LineStops
pub mod Weights
pub mod AllowanceVerdicts
pub mod FaultWords
pub mod Candidates
