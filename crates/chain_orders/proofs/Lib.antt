pub mod MergedLists
pub mod OwnPlaces
pub mod NotesOfSeats
pub mod OrderOfClosedTable
pub mod ElementsOfOrder
pub mod PlacesOfClosedTable
pub mod SenderCalls
