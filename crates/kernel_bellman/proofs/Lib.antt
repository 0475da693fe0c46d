pub mod Parts
pub mod Bellman
pub mod Lists
