pub mod Contained
pub mod Factors
pub mod Modulo
