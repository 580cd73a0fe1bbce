pub mod Powers
pub mod Searches
pub mod DebitLaws
pub mod BudgetLaws
pub mod Mapped
