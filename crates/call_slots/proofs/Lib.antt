pub mod Packing
pub mod TableMadeBySteps
pub mod OpeningSlotWords
pub mod IdTableFitting
