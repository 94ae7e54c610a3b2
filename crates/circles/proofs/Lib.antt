pub mod Quoted
pub mod Sizes
pub mod Optimal
pub mod Centres
pub mod Values
pub mod Standing
pub mod Violating
pub mod Deciding
