pub mod copies
pub mod iterators
pub mod lent
pub mod tables
