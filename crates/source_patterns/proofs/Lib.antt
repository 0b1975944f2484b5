pub mod ArrayParts
