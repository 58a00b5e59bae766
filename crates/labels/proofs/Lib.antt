pub mod Firsts
pub mod Changes
pub mod Shapes
pub mod Settling
pub mod Grids
