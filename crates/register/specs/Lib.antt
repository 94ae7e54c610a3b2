pub mod Table
pub mod State
pub mod Days
pub mod DayLaw
pub mod Calls
pub mod Contents
