pub mod Agreement
pub mod Fecs
pub mod Matches
pub mod Tables
pub mod Plans
pub mod Agree
