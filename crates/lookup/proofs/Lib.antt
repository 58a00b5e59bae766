pub mod Halves
pub mod Longest
pub mod Taking
pub mod Strict
