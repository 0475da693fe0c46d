pub mod Bytes
pub mod Signs
