pub mod Mapped
mod Blends
mod Changed
mod Parts
mod Tables
