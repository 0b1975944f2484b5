pub mod ArgumentLists
pub mod Entered
pub mod Inside
pub mod Outer
pub mod PartLists
pub mod PatternLists
pub mod PlacedKeys
pub mod Stars
