mod Alike
mod Shown
