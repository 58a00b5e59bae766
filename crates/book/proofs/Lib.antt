mod Counts
mod Places
