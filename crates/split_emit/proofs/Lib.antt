mod Lists
mod Whole
