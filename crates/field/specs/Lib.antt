pub mod Tables
pub mod Only
pub mod Refusals
pub mod Every
pub mod Grids
