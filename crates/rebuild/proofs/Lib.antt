mod Builds
mod Chain
mod Keeping
mod Read
