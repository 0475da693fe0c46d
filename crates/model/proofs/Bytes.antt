-- Bytes and plans: numbers as bytes, what a sheet's bytes say, and a plan written, read and in hand.
pub mod Numbers
pub mod Overwriting
pub mod Rows
pub mod Widths
pub mod Decimals
pub mod Entries
pub mod Ranges
pub mod PlanBytes
pub mod InHand
