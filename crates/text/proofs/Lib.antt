pub mod Stepping
pub mod Holding
pub mod Answered
pub mod Whole
pub mod Fitting
