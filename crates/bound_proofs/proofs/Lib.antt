pub mod CountWeights
pub mod CountedPlaces
pub mod CountBounds
pub mod CountSteps
