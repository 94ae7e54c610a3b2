pub mod Rank
pub mod Walks
pub mod Stepping
pub mod Shuffles
