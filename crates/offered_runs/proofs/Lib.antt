pub mod WritingHalfOnce
pub mod OffersAlongRun
