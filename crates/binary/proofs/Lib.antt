pub mod Turns
pub mod Worked
pub mod Whole
