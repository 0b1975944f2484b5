pub mod Inside
pub mod LastToken
pub mod Answered
pub mod Laws
pub mod StatementBegins
pub mod Seen
