pub mod LineByLine
pub mod Promising
