pub mod ExpressionNodes
pub mod Rows
pub mod StatementNodes
pub mod Takers
