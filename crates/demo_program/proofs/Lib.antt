mod Reading
mod Steps
mod Words
mod Admitted
