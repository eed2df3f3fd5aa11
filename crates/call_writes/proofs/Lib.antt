pub mod Drains
pub mod DeliveringWithCalls
pub mod TestSeat
