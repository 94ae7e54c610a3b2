pub mod Seed
pub mod Command
pub mod Steps
pub mod Statement
pub mod Lines
pub mod Line
pub mod Narrow
