pub mod Places
pub mod Laid
pub mod Remaining
