pub mod Products
pub mod Upward
pub mod ByLength
pub mod Best
