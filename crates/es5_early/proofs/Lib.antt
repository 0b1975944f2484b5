mod Least
mod Stacks
mod Walked
