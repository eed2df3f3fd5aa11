pub mod AcceptedOrderSteps
pub mod RequestWordsBehindSteps
pub mod OtherMessageSteps
pub mod Carried
pub mod Home
pub mod LinkWrittenByRight
pub mod Swaps
pub mod EachMessageEvent
