pub mod HexText
pub mod KindNameLookup
