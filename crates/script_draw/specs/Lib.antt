pub mod DrawnSeats
