pub mod Bounds
pub mod Sides
pub mod Boxes
pub mod Directions
