mod Deciding
pub mod Kept
pub mod Lawfully
mod Least
mod Searches
mod Told
