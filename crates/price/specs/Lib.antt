pub mod Pricing
pub mod Answers
pub mod Claims
pub mod Examples
