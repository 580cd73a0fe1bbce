pub mod Reported
pub mod SameJudgements
pub mod SamePaths
pub mod SameVerdicts
pub mod SameWalks
