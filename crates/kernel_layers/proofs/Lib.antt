pub mod Layering
