pub mod Changes
pub mod Dues
pub mod Firsts
