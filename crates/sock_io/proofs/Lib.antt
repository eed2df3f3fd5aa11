mod GrowingBytes
pub mod HalvesKeepOffers
mod PeerLaws
mod PeerRows
