pub mod OneAnswers
pub mod Reaching
pub mod Reported
pub mod Rewritten
pub mod Runs
pub mod Sources
pub mod Tellings
