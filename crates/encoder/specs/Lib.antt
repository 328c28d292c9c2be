pub mod Answers
pub mod Bytes
pub mod CheckMatrix
pub mod Examples
pub mod Opened
pub mod Promises
pub mod Refusals
