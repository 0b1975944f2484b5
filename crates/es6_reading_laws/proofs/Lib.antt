pub mod Quiet
pub mod Across
pub mod AcrossExpressions
pub mod AcrossStatements
pub mod AtBreaks
pub mod OneExpression
pub mod NoParameters
pub mod Fronts
