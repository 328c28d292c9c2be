pub mod Reaching
pub mod Answered
