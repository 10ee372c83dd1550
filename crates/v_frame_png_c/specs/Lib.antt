pub mod Picture
pub mod Status
pub mod WorkedPictures
pub mod Written
