pub mod CountedReferences
pub mod FindingReferences
pub mod WritingUntilHeadEmpty
pub mod SeatBehindDelivering
pub mod NewSeatsOwnList
pub mod ToldAndGivenBack
