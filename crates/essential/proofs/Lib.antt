pub mod Lightest
pub mod Stepping
pub mod Making
pub mod Senders
pub mod Looking
