pub mod Pieces
pub mod Words
pub mod Faults
pub mod Lines
pub mod Reading
pub mod Grammar
pub mod Texts
