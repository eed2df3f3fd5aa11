pub mod FramedCall
pub mod ClientSeatState
pub mod ClientSeatFollowing
