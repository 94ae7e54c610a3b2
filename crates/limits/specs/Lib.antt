pub mod Forms
pub mod Crossings
pub mod Least
pub mod Plane
pub mod Standing
