-- Copies of pixels and of bytes.
pub mod ByteCopies
pub mod ByteLaws
pub mod CopyLemmas
