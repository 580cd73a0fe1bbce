pub mod Lexemes
pub mod Marks
pub mod Meanings
pub mod Sources
pub mod Tokens
pub mod Trees
