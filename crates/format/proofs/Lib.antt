pub mod Filling
pub mod Stating
pub mod Seeding
pub mod Collecting
