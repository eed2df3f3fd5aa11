pub mod Groups
pub mod Keys
pub mod FieldReadings
pub mod Varints
pub mod FieldForms
pub mod ReadingForms
pub mod Shortest
pub mod MessageFields
