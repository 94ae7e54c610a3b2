pub mod Made
pub mod Searched
pub mod Answer
