pub mod Walks
pub mod Unions
pub mod Loads
pub mod Charges
pub mod Opening
