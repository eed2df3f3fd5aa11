mod BufferFronts
pub mod PieceLists
pub mod ReferenceSizesAtEnds
mod PieceLoopSteps
