mod WholeFile
mod Written
