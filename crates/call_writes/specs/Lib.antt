pub mod Draining
pub mod MessageFateBesideCalls
