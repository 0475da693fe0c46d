pub mod Lowering
pub mod Minimums
pub mod Passes
