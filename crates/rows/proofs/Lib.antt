pub mod Rise
pub mod Sublist
pub mod Inserting
pub mod Choosing
pub mod Placing
