pub mod ForIn
pub mod Inside
pub mod StatementEnds
pub mod StatementLists
