pub mod State
pub mod Grammar
pub mod Statements
pub mod Declarations
pub mod Counts
pub mod Units
pub mod Productions
pub mod OneAnswer
