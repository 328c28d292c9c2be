pub mod Joining
pub mod Combining
pub mod Granted
pub mod Pigeon
pub mod Selecting
pub mod Rows
