pub mod DrawLemmas
pub mod SeatLemmas
pub mod Generated
