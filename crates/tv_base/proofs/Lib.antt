mod Caused
mod Grown
mod Taken
mod Begun
