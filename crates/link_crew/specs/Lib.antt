pub mod LinkThreadsBesideClients
pub mod ComparedLinkEnds
pub mod ServingOtherEnd
