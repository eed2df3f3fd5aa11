pub mod Socketed
pub mod AcceptedPlaceWords
pub mod EachTaskHasOutcome
pub mod CalllessSocketsTelling
pub mod EverySendPlaced
pub mod SilentLinksReadWhole
pub mod CalllessReportFits
