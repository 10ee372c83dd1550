pub mod CallSteps
pub mod Loans
pub mod Parts
pub mod Slices
pub mod Statements
pub mod Steps
pub mod block
