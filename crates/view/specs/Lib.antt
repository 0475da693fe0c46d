pub mod Sheets
pub mod Views
