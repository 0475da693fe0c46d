pub mod Binomials
pub mod Ranks
pub mod Examples
