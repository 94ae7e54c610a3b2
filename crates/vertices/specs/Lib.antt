pub mod Vertices
pub mod Crossed
