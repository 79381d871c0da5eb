mod Lists
pub mod Commands
