pub mod Occurring
pub mod Opening
pub mod Admitting
pub mod Refusing
pub mod Passing
