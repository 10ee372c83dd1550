pub mod Messages
pub mod Targets
pub mod WorkedTargets
