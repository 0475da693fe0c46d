-- Tools: tests that compute, tables, folds, lists, loops that search, sum or choose, chains of iterators, and calls that refuse. They say nothing of sheets.
pub mod Tests
pub mod Tables
pub mod Folds
pub mod Lists
pub mod Elements
pub mod Positions
pub mod Arrays
pub mod Walks
pub mod Searches
pub mod SignedSums
pub mod Choices
pub mod Scans
pub mod Chains
pub mod Refusing
