pub mod Sheets
pub mod Carried
