pub mod Grammar
pub mod Numbers
pub mod Said
pub mod Words
