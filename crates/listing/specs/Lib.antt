pub mod Obeyed
pub mod Lines
pub mod Text
pub mod Answers
pub mod Settlement
