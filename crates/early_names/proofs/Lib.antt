mod Fits
mod Listed
