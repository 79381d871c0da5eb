mod Places
mod Changes
mod Turns
