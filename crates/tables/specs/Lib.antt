pub mod Rows
pub mod Grids
pub mod Reading
pub mod Sending
