mod Counting
mod Outside
mod Summing
