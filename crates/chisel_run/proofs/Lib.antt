pub mod OneAnswers
pub mod Runnable
pub mod Sampling
pub mod SomeAnswers
