pub mod HandedSteps
