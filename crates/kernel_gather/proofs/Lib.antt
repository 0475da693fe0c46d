pub mod Passing
pub mod Fronts
pub mod Walking
