mod Bounds
mod ByTurns
mod Statuses
