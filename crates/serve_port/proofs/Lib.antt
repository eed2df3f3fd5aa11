mod PutPieceByPiece
mod ConnectionServed
mod Tallying
mod Guests
