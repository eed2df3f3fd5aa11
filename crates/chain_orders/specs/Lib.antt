pub mod SentMessages
pub mod ListsInOneOrder
pub mod MessagesInOneOrder
pub mod PlacesInOrder
