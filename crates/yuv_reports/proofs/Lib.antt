pub mod Parts
mod Rows
