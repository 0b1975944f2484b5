pub mod BegunRows
