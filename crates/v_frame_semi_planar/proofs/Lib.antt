pub mod BytePairs
pub mod CombinedLists
pub mod ComesBack
pub mod Encoded
pub mod Interleaving
pub mod Stored
