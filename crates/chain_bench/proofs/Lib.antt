pub mod AcceptedSendsOfSeat
pub mod Refusing
