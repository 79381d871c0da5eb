pub mod Encodings
