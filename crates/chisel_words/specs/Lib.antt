pub mod Asked
pub mod Numbers
pub mod Search
pub mod Words
