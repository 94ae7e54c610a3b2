pub mod Layer
pub mod Making
pub mod Layering
pub mod Kept
pub mod Layers
