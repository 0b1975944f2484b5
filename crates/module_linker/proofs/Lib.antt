mod Loaded
mod Opened
