pub mod ErrorCodes
pub mod KindText
pub mod OutcomeText
pub mod PrintedWords
pub mod PlainShape
pub mod Totals
pub mod PackedWords
