pub mod ReadBack
pub mod PrintedParts
