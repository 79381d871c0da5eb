mod Sided
mod Searched
mod Adding
mod Listing
