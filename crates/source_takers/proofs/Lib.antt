pub mod OtherRows
pub mod ValueRows
