pub mod Findings
pub mod Outcomes
pub mod Promises
pub mod Reports
pub mod Rewriting
pub mod Telling
