mod Numerals
mod Rows
mod Views
mod Walks
