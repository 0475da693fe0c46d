pub mod Joining
pub mod Charging
pub mod Listing
pub mod Steps
pub mod Routes
