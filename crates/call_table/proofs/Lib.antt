pub mod CallMetaSize
pub mod EndingsByResponse
pub mod FramePieces
