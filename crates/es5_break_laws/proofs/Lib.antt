pub mod Quiet
pub mod Across
pub mod AcrossReaders
pub mod AtBreaks
pub mod Directive
pub mod WholeScripts
