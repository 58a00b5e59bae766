pub mod Plants
pub mod Answers
pub mod Questions
pub mod Futures
