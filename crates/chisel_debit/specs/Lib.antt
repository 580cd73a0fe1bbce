pub mod Budgets
pub mod Debits
pub mod Hardware
