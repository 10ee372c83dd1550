pub mod Frames
pub mod Prelude
pub mod Turn
pub mod Turning
pub mod WorkedTurns
