pub mod Lists
pub mod Bares
pub mod Rebuilt
pub mod Lexemes
pub mod Words
