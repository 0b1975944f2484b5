mod Listed
mod Mentioned
