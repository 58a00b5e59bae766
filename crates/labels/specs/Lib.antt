pub mod Numbers
pub mod Arrays
pub mod Stagings
pub mod Pools
pub mod Grants
pub mod Wirings
pub mod Reading
