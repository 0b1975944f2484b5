pub mod Exchanged
pub mod Tests
pub mod ExchangedParts
pub mod ExchangedExpressions
pub mod ExchangedStatements
pub mod ExchangedModules
pub mod ExchangedReaders
pub mod Reported
