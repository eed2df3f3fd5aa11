pub mod FrameFrontsBySize
pub mod RepliesFollowingPieces
pub mod LinkOffersStay
pub mod MemoryLinkMeets
