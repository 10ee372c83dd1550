pub mod CrcSteps
