pub mod Deepen
pub mod Letterbox
pub mod Negative
pub mod TurnedHeader
