pub mod Pieces
pub mod Numbers
pub mod Floats
pub mod Samples
