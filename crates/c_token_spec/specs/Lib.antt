pub mod Words
pub mod Punctuators
pub mod Numbers
pub mod Characters
pub mod Blanks
pub mod Lexical
