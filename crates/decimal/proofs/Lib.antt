pub mod Spelling
pub mod Placing
