pub mod Scans
pub mod Laying
pub mod Told
