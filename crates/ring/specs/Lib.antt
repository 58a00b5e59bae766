pub mod Rows
pub mod Links
pub mod Order
pub mod Rings
pub mod Laid
pub mod Steps
pub mod Runs
