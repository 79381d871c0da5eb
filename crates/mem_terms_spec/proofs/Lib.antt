pub mod Lists
pub mod Loads
pub mod Readable
pub mod Forms
pub mod Alike
pub mod Ties
pub mod Validity
