pub mod Counted
pub mod Gets
pub mod Ids
pub mod Lists
pub mod Maps
pub mod Numbers
pub mod Units
