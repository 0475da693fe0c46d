pub mod Padding
pub mod Joining
pub mod Held
