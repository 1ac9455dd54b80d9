pub mod Ends
pub mod Streams
pub mod GoingOn
pub mod Case
pub mod Delivery
pub mod CaseRun
