pub mod Crc
pub mod Sending
pub mod WorkedCrc
