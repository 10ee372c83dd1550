pub mod HeldPixels
