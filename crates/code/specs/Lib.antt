pub mod Admission
pub mod Faults
pub mod Laws
pub mod Numbers
pub mod Places
pub mod Rules
pub mod Texts
pub mod Views
