pub mod Reading
pub mod Whole
pub mod Exact
pub mod Grammar
pub mod Folds
pub mod Expected
pub mod Roles
pub mod Going
