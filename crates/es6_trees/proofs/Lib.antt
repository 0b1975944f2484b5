mod Becoming
mod Fitting
mod ParameterLists
mod Putting
mod Refinements
mod Taking
