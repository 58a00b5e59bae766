pub mod Numbers
pub mod Tables
pub mod Messages
pub mod Packets
pub mod Calls
pub mod History
pub mod Promises
