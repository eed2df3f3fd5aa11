pub mod NewTableWords
pub mod SeatsOfNewTable
pub mod SeatsHoldingNothing
pub mod Racing
