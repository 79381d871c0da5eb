mod Stamped
mod Reported
mod Indices
mod More
mod Propagation
mod Keeping
mod Passing
