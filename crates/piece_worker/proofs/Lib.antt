pub mod RoundsHeld
pub mod Tellings
pub mod Underway
pub mod WholeRuns
