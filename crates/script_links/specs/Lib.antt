pub mod LinksGivenBack
pub mod OfferedLinks
pub mod OpenedLinkEnds
