pub mod Reader
pub mod Numeral
pub mod Parts
pub mod Fields
