pub mod AnyLinkHalves
pub mod AnyKindLinker
