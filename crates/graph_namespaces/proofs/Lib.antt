mod Asking
mod Booking
mod Sharing
mod Silent
mod Spaces
