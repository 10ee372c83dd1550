pub mod Differences
pub mod FrameReports
pub mod Inputs
pub mod Places
pub mod Reports
pub mod SoFar
pub mod WorkedPlaces
