pub mod Everything
pub mod Everythings
