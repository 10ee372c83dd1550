mod ExtensionFaults
pub mod HeadersFound
