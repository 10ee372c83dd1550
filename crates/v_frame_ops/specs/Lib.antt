pub mod Border
pub mod Change
pub mod Compare
pub mod Compose
pub mod Prelude
pub mod Rows
pub mod WorkedChanges
pub mod WorkedCompositions
