pub mod NextDoor
pub mod Choosing
pub mod Completing
