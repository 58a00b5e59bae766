pub mod Steadiness
pub mod Networks
pub mod Dealing
