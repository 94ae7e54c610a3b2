pub mod Fraction
pub mod Point
pub mod Small
