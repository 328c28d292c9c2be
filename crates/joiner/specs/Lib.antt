pub mod Costs
pub mod Joined
pub mod Refusals
pub mod Answers
pub mod Level
pub mod Loops
pub mod Counts
pub mod Members
