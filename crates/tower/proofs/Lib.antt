pub mod Solved
pub mod Copies
pub mod Agrees
pub mod Only
pub mod Made
pub mod Held
