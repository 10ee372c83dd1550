pub mod Colors
pub mod Exact
pub mod Laws
pub mod Prelude
pub mod Standards
pub mod WholeSteps
pub mod WorkedColors
pub mod WorkedExact
