pub mod Exact
pub mod Receiver
pub mod Levels
pub mod Costs
pub mod Refusals
pub mod Laws
