pub mod Answers
pub mod Layouts
