mod Blocks
mod Digits
mod Words
