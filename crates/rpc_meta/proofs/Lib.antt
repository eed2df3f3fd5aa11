pub mod MetaFieldGathering
pub mod Merging
pub mod Building
pub mod Appending
pub mod MessageReadInPieces
pub mod RoundTrip
pub mod SummedPieceLengths
pub mod VarintPutByBytes
pub mod MetaOfFewBytes
mod NextFields
