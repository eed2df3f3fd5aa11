pub mod NetworkLinkHalves
pub mod NetworkLinker
pub mod NetworkWritingHalf
