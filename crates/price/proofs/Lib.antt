pub mod Fits
pub mod Quoting
pub mod Claims
pub mod Acceptance
