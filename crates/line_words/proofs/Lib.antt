pub mod LinesCut
pub mod PiecesOfCutLine
