pub mod MessagePlaces
pub mod RequestsWithoutSends
pub mod OwnRepliesTold
