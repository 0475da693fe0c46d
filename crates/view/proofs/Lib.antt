pub mod Fields
pub mod Within
pub mod Counted
