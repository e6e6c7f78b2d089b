mod Grammar
mod Blocks
mod Places
