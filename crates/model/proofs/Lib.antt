pub mod Acceptance
pub mod Basics
pub mod Tools
pub mod TaskLists
pub mod Theory
pub mod Bytes
pub mod Calls
