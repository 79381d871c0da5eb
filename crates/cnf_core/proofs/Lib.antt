mod Laid
mod Named
mod Loops
mod Negated
