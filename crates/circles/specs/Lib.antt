pub mod Angles
pub mod Discs
pub mod Tests
