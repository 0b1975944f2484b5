pub mod Inside
pub mod ItemLists
pub mod Names
