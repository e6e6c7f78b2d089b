mod Words
mod LengthValues
mod Counts
