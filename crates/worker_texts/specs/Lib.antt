pub mod RoundText
pub mod RoundReading
pub mod WorkerText
pub mod TextValue
pub mod TextForms
pub mod Coming
pub mod Laws
pub mod Examples
