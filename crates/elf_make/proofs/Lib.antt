mod Steps
mod Read
mod Places
mod Programs
mod Entries
mod Written
