pub mod Carrying
pub mod FilledBorders
