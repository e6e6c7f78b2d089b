mod Lengths
mod Bounds
mod Values
mod Words
