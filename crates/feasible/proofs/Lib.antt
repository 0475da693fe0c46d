pub mod Served
pub mod Waiting
pub mod Striking
