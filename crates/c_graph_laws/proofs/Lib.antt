pub mod Extents
mod Occurs
pub mod Lengths
mod Laid
mod Steps
pub mod Bits
pub mod Changes
mod Means
mod Flows
mod Parts
mod Choosing
mod Compared
mod Sums
mod Products
pub mod Sorted
mod Evaluates
pub mod Conjunctions
mod Operators
pub mod Divisions
mod Moves
mod Accesses
mod Objects
pub mod ExpressionSorts
mod Expressions
mod Statements
mod Acting
mod Entering
mod Calling
mod Serving
pub mod Together
pub mod ValidGraphs
mod Starts
pub mod Spared
mod StoreBytes
pub mod KeptBytes
pub mod OwnBindings
