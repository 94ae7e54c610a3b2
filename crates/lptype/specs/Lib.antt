pub mod Meaning
pub mod Laws
pub mod Places
pub mod Questions
pub mod Search
pub mod Theory
