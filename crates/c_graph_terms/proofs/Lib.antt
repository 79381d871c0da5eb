pub mod Banks
pub mod Growing
pub mod Powers
pub mod Lists
pub mod Made
pub mod Accesses
pub mod Excused
pub mod Expressions
