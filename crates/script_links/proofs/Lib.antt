pub mod LinkNumbering
pub mod ShapesOfOpenedLinks
pub mod OffersOfOpenedLinks
pub mod OpeningLinksInOrder
