pub mod Filed
pub mod Checking
