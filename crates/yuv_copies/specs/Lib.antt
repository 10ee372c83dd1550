pub mod Fields
pub mod Shows
pub mod Targets
pub mod Warnings
