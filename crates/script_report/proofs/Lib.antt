pub mod ReportLinesByPlaces
pub mod OrderRows
pub mod ReportedOrders
pub mod Table
pub mod Summed
pub mod Existing
