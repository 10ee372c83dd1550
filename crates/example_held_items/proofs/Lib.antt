pub mod HeldItems
pub mod HeldPixels
pub mod HeldRows
